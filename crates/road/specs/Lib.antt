pub mod Table
pub mod Triangles
