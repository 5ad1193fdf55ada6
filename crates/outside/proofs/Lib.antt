pub mod BytesLaws
pub mod PiecesLaws
pub mod FilesLaws
