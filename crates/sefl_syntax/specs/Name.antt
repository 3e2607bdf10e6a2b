-- The spelling of a name: that of the tokens that are names.
pub use Rattle.sefl_lex.specs.Words.{is_name}
