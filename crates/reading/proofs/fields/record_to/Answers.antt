-- The record is that of its fields. Assumes nothing.
use Rattle.reading.proofs.Records.{same}
use Rattle.reading.specs.Reading.{record_by}
use Rattle.reading.proofs.fields.record_to.Goals as goal

pub returns : goal.returns
unfolding record_by
returns c = same record {
  size = c.word_field.ensures;
  imsi = c.word_field-2.ensures;
  locale = c.word_field-3.ensures;
  screen_type = c.word_field-4.ensures;
  generic_purpose_field = c.word_field-5.ensures;
  screen_size = c.word_field-6.ensures;
  version = c.word_field-7.ensures;
  screen_config = c.word_field-8.ensures;
  screen_size_dp = c.word_field-9.ensures;
  locale_script = c.four_field-locale_script.ensures;
  locale_variant = c.eight_field-locale_variant.ensures;
  screen_config_2 = c.word_field-10.ensures;
  locale_script_was_computed = c.yes_field.ensures;
  locale_numbering_system = c.eight_field-locale_numbering_system.ensures;
  end_padding = c.three_field-end_padding.ensures;
}
