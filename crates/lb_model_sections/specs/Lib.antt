pub mod Contents
pub mod Headings
pub mod Joined
pub mod Laws
pub mod Lists
pub mod SimpleTexts
pub mod Texts
pub mod Worked
