-- Classes: the classes A, B and C, and addresses split into network and host. ClassTable: the same by the columns of the table.
pub mod Classes
pub mod ClassTable
