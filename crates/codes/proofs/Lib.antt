-- Laws of codes:
--     Refusals   a refusal's code is not 0
--     First      the first of two: each before it is none
--     Judged     the first refusal of several judgements, and that all accept
--     Coded      what holds of the code of each holds of the code of the first
pub mod Refusals
pub mod First
pub mod Coded
pub mod Judged
