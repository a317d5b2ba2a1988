pub mod Pick
pub mod RoundTrip
