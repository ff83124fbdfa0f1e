mod Answered
mod Splitting
mod Making
mod Units
mod Replies
mod Ends
