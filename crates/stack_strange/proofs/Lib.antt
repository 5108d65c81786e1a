-- Laws on lists compared place by place, on what is strange, on the next level's rows and their numbers.
pub mod SameLists
pub mod Strange
pub mod NextRows
pub mod NextNumbers
