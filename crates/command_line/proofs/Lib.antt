pub mod Contained
mod PlainWords
mod BoardWords
mod ShowWords
