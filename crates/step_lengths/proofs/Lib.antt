mod CountLaws
mod KnownValues
