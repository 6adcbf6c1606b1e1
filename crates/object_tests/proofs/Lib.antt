pub mod DeskFacts
