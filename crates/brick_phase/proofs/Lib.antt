mod KnownValues
mod NarrowLaws
mod OrderLaws
mod MoveLaws
mod OfferLaws
mod SettleLaws
