pub mod ElementLength
