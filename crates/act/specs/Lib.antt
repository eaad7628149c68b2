-- Every action on a guest's state.
pub mod Acting
