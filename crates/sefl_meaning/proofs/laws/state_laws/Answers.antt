use Rattle.sefl_meaning.proofs.laws.state_laws.Goals as goal

pub returns : goal.returns
returns g c = λ f. record {
  headers = record {
    allocate = c.valuing_commutes.ensures.allocate f;
    deallocate = c.valuing_commutes.ensures.deallocate f;
    assign = c.valuing_commutes.ensures.assign f;
    read = c.valuing_commutes.ensures.read f;
    create_tag = c.valuing_commutes.ensures.create_tag f;
    set_tag = c.valuing_commutes.ensures.set_tag f;
    destroy_tag = c.valuing_commutes.ensures.destroy_tag f;
  };
  metadata = record {
    allocate = c.valuing_commutes-2.ensures.allocate f;
    deallocate = c.valuing_commutes-2.ensures.deallocate f;
    assign = c.valuing_commutes-2.ensures.assign f;
    read = c.valuing_commutes-2.ensures.read f;
    present = c.valuing_commutes-2.ensures.present f;
  };
}
