mod KnownValues
pub mod DrawLaws
mod TransportLaws
mod PlantedLaws
mod AcceptedLaws
