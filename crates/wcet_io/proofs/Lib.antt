pub mod FirstPlace
pub mod InPieces
