-- Records in a row: the laws of the table's crate, where `hop` stands.
pub use Rattle.table.specs.Hops.{hops_next, hops_none, hops_add, hops_first, hops_rest}
