mod NodeLaws
mod Meeting
mod Seeing
