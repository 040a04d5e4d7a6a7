pub mod Latex
