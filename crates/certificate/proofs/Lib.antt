mod ReadLaws
mod TableLaws
mod RoundTrip
mod KnownValues
