pub mod Grammar
pub mod Rewriting
pub mod Spelling
pub mod Remarks
pub mod Automaton
pub mod WordRelation
