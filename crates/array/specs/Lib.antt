-- Where trees of records end, and the left sizes that the table has; `Laws` has what is proved of the ends.
pub mod Ends
pub mod Laws
pub mod Lefts
