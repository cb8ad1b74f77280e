mod Turn
mod Views
