pub mod PollTapes
pub mod Puts
pub mod ReadAgain
pub mod RisingLemmas
pub mod Tapes
pub mod Written
