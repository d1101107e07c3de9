mod Both
