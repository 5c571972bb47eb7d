-- What the program `job` prints, and what its writer knows.
pub mod Job
pub mod Laws
