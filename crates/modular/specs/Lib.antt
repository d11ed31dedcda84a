-- The modulus of the kind.
pub mod Million
