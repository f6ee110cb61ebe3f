-- In this order: the refusals' numbers, the three questions, what their functions answer and what is claimed of them; the converter, what it answers and what is
-- claimed of it; and what all of them can be refused with. Inner has words of contracts.
pub mod Numbers
pub mod Questions
pub mod Answers
pub mod Claims
pub mod Convert
pub mod ConvertAnswers
pub mod ConvertClaims
pub mod Refusals
pub mod Inner
