pub mod Tests
pub mod Choice
pub mod Below
pub mod Least
pub mod Arms
pub mod Lists
