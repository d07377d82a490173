-- The specification's starred cases as one table.
pub mod Table
