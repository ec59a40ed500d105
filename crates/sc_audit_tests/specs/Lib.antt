pub mod Seventeen
