pub mod ShortTexts
