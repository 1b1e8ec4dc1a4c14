pub mod SumsMore
