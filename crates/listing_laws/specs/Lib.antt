pub mod OneListing
