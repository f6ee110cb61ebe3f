-- In this order: places, bounds and refusal numbers, what stands between separators, the lines of a file and the fields of a line, decimals, the weather of a
-- line, what the function answers, what it can be refused with, fields that are calculated, and what is claimed. Inner has words of contracts.
pub mod Numbers
pub mod Split
pub mod Lines
pub mod Decimal
pub mod Weather
pub mod Answers
pub mod Refusals
pub mod Examples
pub mod Claims
pub mod Inner
