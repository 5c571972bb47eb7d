-- Records of a value file, written, and the records of a tree that is a value's shape; `Laws` has what is proved of them.
pub mod Marks
pub mod Trees
pub mod Laws
