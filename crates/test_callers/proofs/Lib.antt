mod Counting
mod Telling
mod Holding
mod Containers
mod Words
