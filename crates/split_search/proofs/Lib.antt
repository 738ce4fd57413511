pub mod TakePlaces
