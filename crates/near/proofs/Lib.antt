pub mod Cases
pub mod Count
pub mod Standing
pub mod HeldPlaces
pub mod NearCranes
pub mod Promise
