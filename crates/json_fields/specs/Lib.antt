pub mod Forms
pub mod Objects
pub mod Numbers
pub mod Lists
pub mod Files
