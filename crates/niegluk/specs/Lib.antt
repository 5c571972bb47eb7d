-- Demand 2, and the room of R-1, said of calls of the entries.
pub mod Demands
pub mod Rooms
