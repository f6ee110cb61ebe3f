-- In this order: what a call returns and what it leaves in what it was lent, the C arrays of states, demands and heat balances, the calls on
-- a zone, why an hour has its rate and load, the calls on a book, the questions over one, the weather of a file, a book converted, the types of lists of the
-- calls on a book, what such a list has of one append, what a caller learns from what a call returned, what is shown of a contract, and all of it. Inner has
-- words of private contracts.
pub mod Code
pub mod Arrays
pub mod Zone
pub mod Why
pub mod Book
pub mod Questions
pub mod Weather
pub mod Convert
pub mod BookTypes
pub mod InSession
pub mod Claims
pub mod Ties
pub mod Engine
pub mod Inner
