-- What a list of refused texts gained.
pub use Rattle.decided_texts.specs.Refused.{gained, Gains}
