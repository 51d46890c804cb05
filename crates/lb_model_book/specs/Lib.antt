pub mod Books
pub mod OwnLines
pub mod PlainForm
pub mod PlainPages
