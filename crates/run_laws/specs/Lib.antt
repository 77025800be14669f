pub mod RunsEnd
