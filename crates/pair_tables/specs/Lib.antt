-- Tables of pairs.
pub mod Tables
