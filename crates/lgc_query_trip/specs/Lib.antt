pub mod QueryReadBack
