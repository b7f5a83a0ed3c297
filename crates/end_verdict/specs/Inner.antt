pub mod NoneOver
