pub mod Causes
pub mod Files
pub mod HostCounts
pub mod MemFiles
pub mod MemSink
pub mod NamedFiles
pub mod Sink
pub mod SureFiles
