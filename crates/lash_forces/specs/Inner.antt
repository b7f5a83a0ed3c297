pub mod OneLash
