pub mod AsciiBytes
