pub mod ChunkReader
