-- What the contracts of `guest` say, by document 01's 'Guest state and the five injections'. `Inner` is for the proofs alone.
pub mod Answer
pub mod Injection
pub mod Tests
pub mod Inject
pub mod Base
pub mod Promise
pub mod Inner
