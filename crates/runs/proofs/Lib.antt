-- Laws of runs:
--     Expand   what runs expand to, one more run, a longer run
pub mod Expand
