use Rattle.std.proofs.Common.{map, string_bytes, inl, inr, refl}
use Rattle.sn_edge.specs.MemFolder.{entry_of}
use Rattle.symnet_c.proofs.Rooms.{nothing_put}
use Rattle.symnet_c.proofs.call.symnet_call.Goals as goal

pub returns-in-Ok-Some-clause-answers : goal.returns-in-Ok-Some-clause-answers
returns-in-Ok-Some-clause-answers c = inr (record {
  texts = map string_bytes c.in-Ok-Some.given.words.items;
  entries = map entry_of c.in-Ok-Some.given.files.items;
  of_words = rw c.in-Ok-Some.field-0-is at c.in-Ok-Some.ensures.words;
  of_files = rw c.in-Ok-Some.field-0-is at c.in-Ok-Some.ensures.files;
  answer = c.answer.ensures.answer;
})

pub returns-in-Ok-None-clause-answers : goal.returns-in-Ok-None-clause-answers
returns-in-Ok-None-clause-answers c = inl (record { is_number = inl refl; is_wanted = refl; is_put = refl })

pub returns-in-Ok-None-clause-message : goal.returns-in-Ok-None-clause-message
returns-in-Ok-None-clause-message c = nothing_put c.args.message_room.now

pub returns-in-Err-clause-answers : goal.returns-in-Err-clause-answers
returns-in-Err-clause-answers c = inl (record { is_number = inr refl; is_wanted = refl; is_put = refl })

pub returns-in-Err-clause-message : goal.returns-in-Err-clause-message
returns-in-Err-clause-message c = nothing_put c.args.message_room.now
