-- Laws of the context: the first code of several, and sequences of calls.
pub mod Codes
