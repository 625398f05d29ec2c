pub mod Judge
pub mod Shows
pub mod Field
pub mod Said
